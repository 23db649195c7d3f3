mod Printed
mod Lines
