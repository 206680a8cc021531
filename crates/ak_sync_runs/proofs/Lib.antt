mod Retrying
mod Telling
