-- What std's words say in the definitions' own.
pub mod StdWords
