mod Descriptors
mod Parameters
mod Words
