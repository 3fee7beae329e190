-- `Booleans`: computed tests of Boolean formulas. `Tops`: top bits and sizes. `Carries`: carry, half carry and overflow. `Products`: of signed bytes.
pub mod Booleans
pub mod Tops
pub mod Carries
pub mod Products
