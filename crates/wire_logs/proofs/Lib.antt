mod Answering
mod Yes
