mod Numbered
