mod Answered
mod Places
mod Runs
mod Serving
mod Turning
mod Writes
