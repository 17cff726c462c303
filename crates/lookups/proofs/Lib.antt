-- Parts: where a part that is handed back stands.
pub mod Parts
