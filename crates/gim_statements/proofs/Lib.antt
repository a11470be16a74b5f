-- Exactness, production by production.
pub mod OperandsExact
pub mod RightsExact
pub mod ItemsExact
pub mod EndsExact
pub mod BlocksExact
