-- `serializing/md.rs` as definitions: one file for each file of the Rust, with its names.
pub mod Constants
pub mod LineBreak
pub mod Ctx
pub mod TextUtils
pub mod Heading
pub mod MDSerializer
pub mod Elements
pub mod Serializer
use Rattle.std.specs.Prelude.{ℕ, Bool, List}
use Rattle.spec.specs.Bytes.{Bytes}
use Rattle.spec.specs.Tree.{Forest}
use Rattle.spec.specs.Out.{Out}
use Rattle.spec.specs.Md.Serializer.{levels, serializer, serialize}

-- from node `start` of the forest that the fragment holds, with that node or without it
unfoldable pub serialize_md : Forest → ℕ → Bool → List Bytes → Out
serialize_md f start include_node skip_tags = serialize (serializer skip_tags levels) f start include_node
