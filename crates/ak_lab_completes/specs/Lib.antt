pub mod LabCompleting
