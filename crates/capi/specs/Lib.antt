-- The jobs for C.

-- how an outcome is handed to C
pub mod Encoding
