mod CheckedTexts
mod Counts
mod Layers
mod Trees
