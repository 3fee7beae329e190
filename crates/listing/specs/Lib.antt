-- `Names`: the manual's names. `Listing`: the text of a program. `Shown`: what the code hands on. `Laws`: what is proved of a listing.
pub mod Names
pub mod Listing
pub mod Shown
pub mod Laws
