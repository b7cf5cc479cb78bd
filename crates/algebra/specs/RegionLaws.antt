-- Regions keep the laws: the whole table passes the test.
use Rattle.std.specs.Prelude.{refl}
use Rattle.algebra.specs.Meaning.{Lawful}
use Rattle.algebra.specs.Regions.{regions}
use Rattle.algebra.specs.TableLaws.{passes, table_laws}

pub region_laws : Lawful regions
unfolding passes
region_laws = table_laws regions 8 refl
