mod Places
mod Right
