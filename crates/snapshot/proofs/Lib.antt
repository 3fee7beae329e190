-- `Fields`: of a core that was read. `Laid`: six bytes behind 32. `RoundTrips`: reading undoes writing and the reverse, and old snapshots read as they did. `Said`: a Result by its numbers.
pub mod Fields
pub mod Laid
pub mod RoundTrips
pub mod Said
