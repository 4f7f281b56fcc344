pub mod Routes
pub mod Trees
pub mod Plans
