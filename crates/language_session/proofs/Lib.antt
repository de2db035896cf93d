mod Answering
mod Following
mod Found
mod Names
mod Whole
