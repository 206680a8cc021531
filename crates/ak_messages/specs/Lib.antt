pub mod Methods
pub mod MessageForms
