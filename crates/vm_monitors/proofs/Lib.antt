-- what entering and leaving do with monitors and with their words
mod Entering
