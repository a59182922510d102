mod Drained
