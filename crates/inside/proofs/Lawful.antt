-- Every kind of unit is lawful.
use Rattle.kind.specs.declared.Kind.{Kind}
use Rattle.kind.specs.declared.Kind.TheVariants.{Serial as SerialUnit, Video as VideoUnit}
use Rattle.inside.specs.Lawful.{Lawful}
use Rattle.inside.proofs.SerialUnit.{serial_lawful}
use Rattle.inside.proofs.VideoUnit.{video_lawful}

pub every_lawful : (kind : Kind) → Lawful kind
every_lawful SerialUnit = serial_lawful
every_lawful VideoUnit = video_lawful
