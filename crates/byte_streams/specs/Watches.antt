-- An input that may end with the program that is given it, and its reader.
use Rattle.byte_streams.specs.declared.watched.Watched.{Watched}

abbrev pub reader_of : {R : Type 0} → Watched R → R
reader_of watched = watched.reader
