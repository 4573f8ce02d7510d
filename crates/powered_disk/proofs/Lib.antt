mod Powering
