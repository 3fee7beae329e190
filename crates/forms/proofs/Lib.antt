-- `Alone`: the second word changes no form. `Fit`: the fields of a decoded word are those of its form.
pub mod Alone
pub mod Fit
