pub mod SavedOf
pub mod Inner
