pub mod Grammar
pub mod Rules
