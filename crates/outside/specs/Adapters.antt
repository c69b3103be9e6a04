-- What errors of the operating system come to.
use Rattle.std.specs.declared.io.ErrorKind.{ErrorKind}
use Rattle.std.specs.declared.io.ErrorKind.TheVariants.{NotFound, OutOfMemory}
use Rattle.outside.specs.declared.objects.ShelfError.{ShelfError}
use Rattle.outside.specs.declared.objects.ShelfError.TheVariants.{Absent, Failed, NoMemory}

-- why a file was not read, by the kind of the error that was met
abbrev pub cause_of : ErrorKind → ShelfError
cause_of NotFound = Absent
cause_of OutOfMemory = NoMemory
cause_of _ = Failed
