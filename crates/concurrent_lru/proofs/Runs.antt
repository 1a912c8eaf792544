-- The laws of whole runs.
pub mod CutAndJoined
pub mod GroupsOfPlainRun
pub mod PlainRuns
pub mod ChangingRuns
pub mod LongestEnds
pub mod LargerCapacity
pub mod ChargeOfKey
pub mod WeightOfKey
pub mod Moments
pub mod RemainingUses
pub mod RemovedKeys
pub mod RoomOfRemovals
pub mod SteadyCapacity
pub mod StampCounts
pub mod StampsOnce
pub mod StrictRuns
pub mod PromisesOfRuns
