-- What contracts see of a map: what it was built from.
use Rattle.isa65.specs.Words.{Table, table_of}
use Rattle.info65.specs.Words.{AreNames, AreSegments, InfoView}
use Rattle.map65.specs.ImageView.{ImageView, IsPlaced}

pub record MapView : Type 0 where
  pub info : InfoView
  pub image : ImageView

-- the map of an image by this information
abbrev pub mapped : InfoView → ImageView → MapView
mapped info image = record { info = info; image = image }

-- what holds of the information and the image of each map
pub record IsSoundMap (m : MapView) : Type 0 where
  pub names : AreNames m.info.names
  pub segments : AreSegments m.info.segments
  pub placed : IsPlaced m.image

-- the opcodes of its CPU
abbrev pub opcodes : MapView → Table
opcodes m = table_of m.info.settings.cpu
