pub mod Answered
pub mod OneReply
