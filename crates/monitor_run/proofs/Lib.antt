mod Asks
mod Deeds
mod Fields
mod Requests
mod Reports
mod Runs
