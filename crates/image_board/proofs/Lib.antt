mod Collecting
