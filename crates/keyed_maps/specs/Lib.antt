pub mod KeyedMaps
