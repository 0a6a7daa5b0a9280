mod Alike
mod Laws
mod Finals
mod Machines
mod Checks
mod Running
mod Doing
