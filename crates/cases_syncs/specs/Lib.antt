pub mod Intercepted
