-- `bucket` meets its contract: the arithmetic fits, and of a number below 2048 it makes one below the number of buckets.
use mathlib.Core.Path.{refl}
use native.Mathlib.Omega.{arith}
use Rattle.points.specs.Listed.{bucket_of}
use Rattle.points.proofs.Listings.{bucket_small}
use Rattle.points.proofs.bucket.Goals as goal

pub returns : goal.returns
unfolding bucket_of
returns c = (refl, bucket_small _ c.args.buckets (omega arith) c.requires.0)
