mod Segments
