mod Beginning
mod Coming
mod Healing
mod Printing
mod Syncing
