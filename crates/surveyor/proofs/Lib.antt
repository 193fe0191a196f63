mod Marking
mod Agreeing
mod Join
mod Noting
mod Answering
