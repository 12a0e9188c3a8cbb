mod Cutting
mod Tables
