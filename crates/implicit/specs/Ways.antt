-- A way as the access that it is.
use Rattle.access.specs.declared.Access.{Access}
use Rattle.access.specs.declared.Access.TheVariants as accesses
use Rattle.implicit.specs.declared.Way.{Way}
use Rattle.implicit.specs.declared.Way.TheVariants.{Read, Write}

abbrev pub access_by : Way → Access
access_by Read = accesses.Read
access_by Write = accesses.Write
