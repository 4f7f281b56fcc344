pub mod TrieImages
pub mod ValueImages
