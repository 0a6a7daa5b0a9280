mod Apart
mod Moved
mod Named
mod Seen
