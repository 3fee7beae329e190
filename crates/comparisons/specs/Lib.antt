-- `Comparisons`: what CP and CPC on the bytes of two numbers leave, for every width, with no interrupt entered and with handlers between; and the branch behind. `Stamps`: stamps of four bytes.
pub mod Comparisons
pub mod Stamps
