mod Fronts
mod Marks
mod Samples
mod Servo
mod Sessions
mod Slews
