pub mod HookLog
pub mod Noting
