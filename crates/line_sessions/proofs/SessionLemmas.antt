-- Where a session stands after each of its steps, up to the end of the input.
pub mod Standing
pub mod Serving
