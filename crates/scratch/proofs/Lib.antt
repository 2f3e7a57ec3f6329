mod Scratch
