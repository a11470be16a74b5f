pub mod FirstFunction
