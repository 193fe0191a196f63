mod Spares
mod Gaps
mod Walks
mod Groups
mod Inputs
mod Forms
mod Rules
