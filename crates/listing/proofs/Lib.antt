mod Appends
