pub mod OneStatus
