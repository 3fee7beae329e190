-- `Contracts`: that functions which README claims something of meet their contracts.
pub mod EachContract
