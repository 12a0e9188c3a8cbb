mod TellsMapped
