mod Shapes
mod Druc
mod Sources
mod Covering
mod Follow
mod Tables
mod Lvx
