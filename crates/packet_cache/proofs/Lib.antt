mod Generations
