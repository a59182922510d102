mod Assembled
