mod Flows
mod Plans
